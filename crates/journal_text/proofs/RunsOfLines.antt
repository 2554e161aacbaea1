use Rattle.std.proofs.Common.{◌≡◌, ℕ, zero, suc, ◌+◌, ◌-◌, ◌<◌, ◌≤◌, true, false, cond, List, [], ◌∷◌, ◌++◌, length, Option, Some, None, refl, sym, ap, ◌∙◌, append_assoc, append-nil, arith}
use Rattle.std.proofs.lemmas.List.{length-append}
use Rattle.road_graph.specs.declared.road.NodeNo.{NodeNo}
use Rattle.road_graph.specs.Roads.{node}
use Rattle.journal_text.specs.Forms.{largest_32, largest_value}
use Rattle.journal_text.specs.LineParts.{and_then, number_ahead}
use Rattle.journal_text.specs.LineRuns.{in_front, nodes_ahead, is_above, pairs_ahead}

in_front_twice : {X : Type 0} (xs ys : List X) (o : Option (List X)) → in_front (xs ++ ys) o ≡ in_front xs (in_front ys o)
in_front_twice xs ys None = refl
in_front_twice xs ys (Some more) = ap (λ l. Some l) (append_assoc xs ys more)

-- Nodes.

one_node : (most : ℕ) (rest behind : List ℕ) (n : ℕ) → number_ahead rest largest_32 ≡ Some (n, behind) → nodes_ahead (suc most) rest ≡ in_front (node n ∷ []) (nodes_ahead most behind)
one_node most [] behind n e = absurd cc
one_node most (b ∷ bs) behind n e = ap (λ o. and_then o (λ (cut : ℕ × List ℕ). in_front (node cut.0 ∷ []) (nodes_ahead most cut.1))) e

no_node : (most : ℕ) (rest : List ℕ) → (rest ≡ [] → ⊥) → number_ahead rest largest_32 ≡ None → nodes_ahead most rest ≡ None
no_node most [] some e = absurd (some refl)
no_node zero (b ∷ bs) some e = refl
no_node (suc most) (b ∷ bs) some e = ap (λ o. and_then o (λ (cut : ℕ × List ℕ). in_front (node cut.0 ∷ []) (nodes_ahead most cut.1))) e

-- the nodes of a line so far, and those ahead
pub record AreNodesSoFar (run : List NodeNo) (rest bytes : List ℕ) : Type 0 where
  pub few : length run ≤ 64
  pub all : in_front run (nodes_ahead (64 - length run) rest) ≡ nodes_ahead 64 bytes

pub nodes_begin : (bytes : List ℕ) → AreNodesSoFar [] bytes bytes
nodes_begin bytes = record { few = omega arith; all = by (nodes_ahead 64 bytes) }
  where
    by : (o : Option (List NodeNo)) → in_front [] o ≡ o
    by None = refl
    by (Some nodes) = refl

pub nodes_more : (run : List NodeNo) (rest behind bytes : List ℕ) (n : ℕ) → AreNodesSoFar run rest bytes → length run < 64 → number_ahead rest largest_32 ≡ Some (n, behind)
    → AreNodesSoFar (run ++ node n ∷ []) behind bytes
nodes_more run rest behind bytes n sofar room e =
    let left : 64 - length run ≡ suc (64 - length (run ++ node n ∷ [])) = omega (arith, length-append run (node n ∷ [])) in
    record {
      few = omega (arith, length-append run (node n ∷ []));
      all = in_front_twice run (node n ∷ []) (nodes_ahead (64 - length (run ++ node n ∷ [])) behind)
          ∙ ap (in_front run) (sym (ap (λ k. nodes_ahead k rest) left ∙ one_node (64 - length (run ++ node n ∷ [])) rest behind n e)) ∙ sofar.all;
    }

pub nodes_end : (run : List NodeNo) (rest bytes : List ℕ) → AreNodesSoFar run rest bytes → rest ≡ [] → Some run ≡ nodes_ahead 64 bytes
nodes_end run rest bytes sofar e =
    sym (ap (λ l. Some l) (append-nil run)) ∙ ap (λ r. in_front run (nodes_ahead (64 - length run) r)) (sym e) ∙ sofar.all

pub nodes_full : (run : List NodeNo) (rest bytes : List ℕ) → AreNodesSoFar run rest bytes → length run ≡ 64 → (rest ≡ [] → ⊥) → None ≡ nodes_ahead 64 bytes
nodes_full run [] bytes sofar full some = absurd (some refl)
nodes_full run (b ∷ bs) bytes sofar full some =
    let left : 64 - length run ≡ 0 = omega (arith, full) in
    ap (λ k. in_front run (nodes_ahead k (b ∷ bs))) (sym left) ∙ sofar.all

pub nodes_broken : (run : List NodeNo) (rest bytes : List ℕ) → AreNodesSoFar run rest bytes → (rest ≡ [] → ⊥) → number_ahead rest largest_32 ≡ None → None ≡ nodes_ahead 64 bytes
nodes_broken run rest bytes sofar some e = ap (in_front run) (sym (no_node (64 - length run) rest some e)) ∙ sofar.all

-- Pairs.

-- what a pair and the pairs behind it come to
abbrev pair_and : (most : ℕ) → (last : Option NodeNo) → (ℕ × List ℕ) → (ℕ × List ℕ) → Option (List (NodeNo × ℕ))
pair_and most last cut value = cond (is_above (node cut.0) last) (in_front ((node cut.0, value.0) ∷ []) (pairs_ahead most (Some (node cut.0)) value.1)) None

one_pair : (most : ℕ) (last : Option NodeNo) (rest between behind : List ℕ) (n v : ℕ) → number_ahead rest largest_32 ≡ Some (n, between) → number_ahead between largest_value ≡ Some (v, behind)
    → pairs_ahead (suc most) last rest ≡ pair_and most last (n, between) (v, behind)
one_pair most last [] between behind n v e f = absurd cc
one_pair most last (b ∷ bs) between behind n v e f =
    ap (λ o. and_then o (λ (cut : ℕ × List ℕ). and_then (number_ahead cut.1 largest_value) (pair_and most last cut))) e
    ∙ ap (λ o. and_then o (pair_and most last (n, between))) f

-- the pairs of a line so far, and those ahead
pub record ArePairsSoFar (run : List (NodeNo × ℕ)) (last first : Option NodeNo) (rest bytes : List ℕ) : Type 0 where
  pub few : length run ≤ 32
  pub all : in_front run (pairs_ahead (32 - length run) last rest) ≡ pairs_ahead 32 first bytes

pub pairs_begin : (first : Option NodeNo) (bytes : List ℕ) → ArePairsSoFar [] first first bytes bytes
pairs_begin first bytes = record { few = omega arith; all = by (pairs_ahead 32 first bytes) }
  where
    by : (o : Option (List (NodeNo × ℕ))) → in_front [] o ≡ o
    by None = refl
    by (Some pairs) = refl

-- one pair of it, and then the rest
pairs_step : (run : List (NodeNo × ℕ)) (last first : Option NodeNo) (rest between behind bytes : List ℕ) (n v : ℕ) → ArePairsSoFar run last first rest bytes → length run < 32
    → number_ahead rest largest_32 ≡ Some (n, between) → number_ahead between largest_value ≡ Some (v, behind)
    → in_front run (pair_and (32 - (length run + 1)) last (n, between) (v, behind)) ≡ pairs_ahead 32 first bytes
pairs_step run last first rest between behind bytes n v sofar room e f =
    let left : 32 - length run ≡ suc (32 - (length run + 1)) = omega arith in
    ap (in_front run) (sym (ap (λ k. pairs_ahead k last rest) left ∙ one_pair (32 - (length run + 1)) last rest between behind n v e f)) ∙ sofar.all

pub pairs_more : (run : List (NodeNo × ℕ)) (last first : Option NodeNo) (rest between behind bytes : List ℕ) (n v : ℕ) → ArePairsSoFar run last first rest bytes → length run < 32
    → number_ahead rest largest_32 ≡ Some (n, between) → number_ahead between largest_value ≡ Some (v, behind) → is_above (node n) last ≡ true
    → ArePairsSoFar (run ++ (node n, v) ∷ []) (Some (node n)) first behind bytes
pairs_more run last first rest between behind bytes n v sofar room e f above =
    let size : length (run ++ (node n, v) ∷ []) ≡ length run + 1 = omega (arith, length-append run ((node n, v) ∷ [])) in
    record {
      few = omega (arith, size);
      all = ap (λ k. in_front (run ++ (node n, v) ∷ []) (pairs_ahead (32 - k) (Some (node n)) behind)) size
          ∙ in_front_twice run ((node n, v) ∷ []) (pairs_ahead (32 - (length run + 1)) (Some (node n)) behind)
          ∙ ap (λ t. in_front run (cond t (in_front ((node n, v) ∷ []) (pairs_ahead (32 - (length run + 1)) (Some (node n)) behind)) None)) (sym above)
          ∙ pairs_step run last first rest between behind bytes n v sofar room e f;
    }

pub pairs_fall : (run : List (NodeNo × ℕ)) (last first : Option NodeNo) (rest between behind bytes : List ℕ) (n v : ℕ) → ArePairsSoFar run last first rest bytes → length run < 32
    → number_ahead rest largest_32 ≡ Some (n, between) → number_ahead between largest_value ≡ Some (v, behind) → is_above (node n) last ≡ false → None ≡ pairs_ahead 32 first bytes
pairs_fall run last first rest between behind bytes n v sofar room e f above =
    ap (λ t. in_front run (cond t (in_front ((node n, v) ∷ []) (pairs_ahead (32 - (length run + 1)) (Some (node n)) behind)) None)) (sym above)
    ∙ pairs_step run last first rest between behind bytes n v sofar room e f

pub pairs_end : (run : List (NodeNo × ℕ)) (last first : Option NodeNo) (rest bytes : List ℕ) → ArePairsSoFar run last first rest bytes → rest ≡ [] → Some run ≡ pairs_ahead 32 first bytes
pairs_end run last first rest bytes sofar e =
    sym (ap (λ l. Some l) (append-nil run)) ∙ ap (λ r. in_front run (pairs_ahead (32 - length run) last r)) (sym e) ∙ sofar.all

pub pairs_full : (run : List (NodeNo × ℕ)) (last first : Option NodeNo) (rest bytes : List ℕ) → ArePairsSoFar run last first rest bytes → length run ≡ 32 → (rest ≡ [] → ⊥) → None ≡ pairs_ahead 32 first bytes
pairs_full run last first [] bytes sofar full some = absurd (some refl)
pairs_full run last first (b ∷ bs) bytes sofar full some =
    let left : 32 - length run ≡ 0 = omega (arith, full) in
    ap (λ k. in_front run (pairs_ahead k last (b ∷ bs))) (sym left) ∙ sofar.all

no_pair : (most : ℕ) (last : Option NodeNo) (rest : List ℕ) → (rest ≡ [] → ⊥) → number_ahead rest largest_32 ≡ None → pairs_ahead most last rest ≡ None
no_pair most last [] some e = absurd (some refl)
no_pair zero last (b ∷ bs) some e = refl
no_pair (suc most) last (b ∷ bs) some e = ap (λ o. and_then o (λ (cut : ℕ × List ℕ). and_then (number_ahead cut.1 largest_value) (pair_and most last cut))) e

no_value : (most : ℕ) (last : Option NodeNo) (rest between : List ℕ) (n : ℕ) → number_ahead rest largest_32 ≡ Some (n, between) → number_ahead between largest_value ≡ None → pairs_ahead most last rest ≡ None
no_value most last [] between n e f = absurd cc
no_value zero last (b ∷ bs) between n e f = refl
no_value (suc most) last (b ∷ bs) between n e f =
    ap (λ o. and_then o (λ (cut : ℕ × List ℕ). and_then (number_ahead cut.1 largest_value) (pair_and most last cut))) e ∙ ap (λ o. and_then o (pair_and most last (n, between))) f

pub pairs_broken : (run : List (NodeNo × ℕ)) (last first : Option NodeNo) (rest bytes : List ℕ) → ArePairsSoFar run last first rest bytes → (rest ≡ [] → ⊥) → number_ahead rest largest_32 ≡ None
    → None ≡ pairs_ahead 32 first bytes
pairs_broken run last first rest bytes sofar some e = ap (in_front run) (sym (no_pair (32 - length run) last rest some e)) ∙ sofar.all

pub pairs_cut : (run : List (NodeNo × ℕ)) (last first : Option NodeNo) (rest between bytes : List ℕ) (n : ℕ) → ArePairsSoFar run last first rest bytes
    → number_ahead rest largest_32 ≡ Some (n, between) → number_ahead between largest_value ≡ None → None ≡ pairs_ahead 32 first bytes
pairs_cut run last first rest between bytes n sofar e f = ap (in_front run) (sym (no_value (32 - length run) last rest between n e f)) ∙ sofar.all
