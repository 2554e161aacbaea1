use Rattle.std.proofs.Common.{◌≡◌, ℕ, zero, suc, ◌+◌, ◌<◌, ◌≤◌, List, [], ◌∷◌, ◌++◌, length, take, get_or, Option, None, Some, sym, ap, ◌∙◌, arith, refl, subst, ap₂}
use Rattle.std.specs.Prelude.{slice_get, map, Vec, Result, Ok, Err, IfOk}
use Rattle.std.proofs.lemmas.List.{take_more, take_all}
use Rattle.std.proofs.lemmas.Option.{slice_get-get_or}
use Rattle.road_graph.specs.declared.road.NodeNo.{NodeNo}
use Rattle.upward_search.specs.declared.slope.Label.{Label}
use Rattle.upward_search.specs.Ladders.{Ladder, IsLadder, IsAt, AreApart, ArePlaces, faced}
use Rattle.upward_search.specs.Hierarchies.{LadderFits}
use Rattle.upward_search.specs.Rests.{AreRests}
use Rattle.road_graph.specs.Roads.{Roads}
use Rattle.upward_search.specs.declared.way.Way.{Way}
use Rattle.upward_search.proofs.FacedLadder.{answer_by}
use Rattle.std.specs.Global.{Global}
use Rattle.upward_search.specs.Names.{AreListed, AreRising, AreRestsBy, label_by, AreIn}

listed_push : (nodes : List NodeNo) (rs : List Label) (ns : List (NodeNo × ℕ)) (r : Label) (n : NodeNo × ℕ) → AreListed nodes rs ns → slice_get nodes r.place ≡ Some n.0 → n.1 ≡ r.length → AreListed nodes (rs ++ r ∷ []) (ns ++ n ∷ [])
listed_push nodes [] [] r n l a e = (a, e, tt)
listed_push nodes [] (m ∷ ns) r n l a e = absurd l
listed_push nodes (s ∷ rs) [] r n l a e = absurd l
listed_push nodes (s ∷ rs) (m ∷ ns) r n l a e = (l.0, l.1, listed_push nodes rs ns r n l.2 a e)

pub listed_more : (nodes : List NodeNo) (labels : List Label) (i : ℕ) (d : Label) (e : NodeNo) (listed : List (NodeNo × ℕ)) → i < length labels → (get_or labels i d).place < length nodes → AreListed nodes (take i labels) listed
    → AreListed nodes (take (i + 1) labels) (listed ++ (get_or nodes (get_or labels i d).place e, (get_or labels i d).length) ∷ [])
listed_more nodes labels i d e listed lt low l =
    subst (λ (rs : List Label). AreListed nodes rs (listed ++ (get_or nodes (get_or labels i d).place e, (get_or labels i d).length) ∷ [])) (sym (take_more labels i d lt))
    (listed_push nodes (take i labels) listed (get_or labels i d) (get_or nodes (get_or labels i d).place e, (get_or labels i d).length) l (slice_get-get_or nodes (get_or labels i d).place e low) refl)

pub listed_all : (nodes : List NodeNo) (labels : List Label) (i : ℕ) (listed : List (NodeNo × ℕ)) → length labels ≤ i → AreListed nodes (take i labels) listed → AreListed nodes labels listed
listed_all nodes labels i listed le l = subst (λ (rs : List Label). AreListed nodes rs listed) (take_all i labels le) l

-- what is listed is a label's, and each label is listed
label_of : (nodes : List NodeNo) (rs : List Label) (ns : List (NodeNo × ℕ)) (k : ℕ) (n : NodeNo × ℕ) → AreListed nodes rs ns → slice_get ns k ≡ Some n → (r : Label) × (slice_get rs k ≡ Some r) × (slice_get nodes r.place ≡ Some n.0) × (n.1 ≡ r.length)
label_of nodes [] [] k n l e = cc
label_of nodes [] (m ∷ ns) k n l e = absurd l
label_of nodes (s ∷ rs) [] k n l e = absurd l
label_of nodes (s ∷ rs) (m ∷ ns) zero n l e = let is : m ≡ n = cc in (s, refl, l.0 ∙ ap (λ (p : NodeNo × ℕ). Some p.0) is, sym (ap (λ (p : NodeNo × ℕ). p.1) is) ∙ l.1)
label_of nodes (s ∷ rs) (m ∷ ns) (suc k) n l e = label_of nodes rs ns k n l.2 e

pub apart_of : (h : Ladder) (nodes : List NodeNo) (places : List ℕ) → nodes ≡ h.nodes → ArePlaces nodes places → AreApart h
apart_of h nodes places e a p q n x y =
    sym (a.back p n (subst (λ (ns : List NodeNo). slice_get ns p ≡ Some n) (sym e) x)) ∙ a.back q n (subst (λ (ns : List NodeNo). slice_get ns q ≡ Some n) (sym e) y)

listed_in : (nodes : List NodeNo) (places : List ℕ) → ArePlaces nodes places → (rs : List Label) (ns : List (NodeNo × ℕ)) → AreListed nodes rs ns → map (λ (n : NodeNo × ℕ). label_by places n) ns ≡ rs
listed_in nodes places a [] [] l = refl
listed_in nodes places a [] (m ∷ ns) l = absurd l
listed_in nodes places a (s ∷ rs) [] l = absurd l
listed_in nodes places a (s ∷ rs) (m ∷ ns) l =
    let one : label_by places m ≡ s = ap₂ (λ (p x : ℕ). let r : Label = record { place = p; length = x } in r) (a.back s.place m.0 l.0) l.1 in
    ap₂ (λ (r : Label) (more : List Label). r ∷ more) one (listed_in nodes places a rs ns l.2)

pub labels_are : (h : Ladder) (nodes : List NodeNo) (places read : List ℕ) → read ≡ places → nodes ≡ h.nodes → ArePlaces nodes places → (listed : List (NodeNo × ℕ)) (r : AreRising h listed) → map (λ (n : NodeNo × ℕ). label_by read n) listed ≡ r.labels
labels_are h nodes places read e n a listed r =
    ap (λ (ps : List ℕ). map (λ (n : NodeNo × ℕ). label_by ps n) listed) e ∙ listed_in nodes places a r.labels listed (subst (λ (ns : List NodeNo). AreListed ns r.labels listed) (sym n) r.are)

listed_many : (nodes : List NodeNo) (rs : List Label) (ns : List (NodeNo × ℕ)) → AreListed nodes rs ns → length rs ≡ length ns
listed_many nodes [] [] l = refl
listed_many nodes [] (m ∷ ns) l = absurd l
listed_many nodes (s ∷ rs) [] l = absurd l
listed_many nodes (s ∷ rs) (m ∷ ns) l = ap suc (listed_many nodes rs ns l.2)

pub rests_said : (way : Way) (h : Ladder) → IsLadder h → (q : ℕ) (to : NodeNo) → IsAt h q to → (labels read : List Label) → read ≡ labels → (listed seen : List (NodeNo × ℕ)) → seen ≡ listed → AreListed h.nodes labels seen → {E : Type 0} (r : Result (Vec (Option ℕ) Global) E)
    → IfOk r (λ rests. AreRests (faced way h) q read rests.items 0) → IfOk r (λ rests. (g : Roads) → LadderFits g h → AreRestsBy way g listed to rests.items)
rests_said way h l q to at labels read e listed seen e' are (Err x) k = k
rests_said way h l q to at labels read e listed seen e' are (Ok rests) k = λ g f. record {
  many = (let m = k.many in let a = ap length e in let b = listed_many h.nodes labels seen are in let c = ap length e' in omega arith);
  each = λ i n x s. (
      let t = label_of h.nodes labels seen i (n, x) are (ap (λ (ns : List (NodeNo × ℕ)). slice_get ns i) e' ∙ s) in
      answer_by way g h f l t.0.place q n to t.2 at (get_or rests.items i None) (k.each i t.0 (omega arith) (ap (λ (rs : List Label). slice_get rs i) e ∙ t.1)));
}

pub listed_inside : (h : Ladder) (nodes : List NodeNo) (places read : List ℕ) → read ≡ places → nodes ≡ h.nodes → ArePlaces nodes places → (listed : List (NodeNo × ℕ)) (r : AreRising h listed) → AreIn read listed
listed_inside h nodes places read e n a listed r m i =
    let t = label_of h.nodes r.labels listed i.0 m r.are i.1 in
    let low = a.inside t.0.place m.0 (subst (λ (ns : List NodeNo). slice_get ns t.0.place ≡ Some m.0) (sym n) t.2) in
    subst (λ (ps : List ℕ). m.0.0 < length ps) (sym e) low

pub labels_made : (labels made : List Label) → made ≡ labels → (P : List Label → Type 0) → P labels → {E : Type 0} (r : Result (Vec Label Global) E) → IfOk r (λ ls. ls.items ≡ made) → IfOk r (λ ls. P ls.items)
labels_made labels made e P p (Ok ls) k = subst P (sym (k ∙ e)) p
labels_made labels made e P p (Err x) k = k
