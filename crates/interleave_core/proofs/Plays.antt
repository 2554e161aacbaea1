use Rattle.std.proofs.Common.{◌≡◌, ℕ, zero, suc, ◌+◌, ◌<◌, ◌≤◌, Bool, true, false, List, ◌++◌, ◌∷◌, [], length, get_or, take, Option, Some, None, sym, refl, ap, ◌∙◌, subst, arith, add-one, append_assoc, length-append, length-set}
use Rattle.std.specs.Prelude.{slice_get}
use Rattle.std.proofs.lemmas.List.{append-nil}
use Rattle.std.proofs.lemmas.Option.{slice_get-get_or}
use Rattle.road_graph.specs.Graphs.{IsGraph}
use Rattle.road_graph.specs.Roads.{Roads}
use Rattle.stop_schedule.specs.declared.request.Request.{Request}
use Rattle.insertion_cost.specs.Candidates.{AreSound}
use Rattle.board_core.specs.CandidateLaws.{EntriesKeepSoundness}
use Rattle.stop_schedule.specs.Fleets.{Fitting, IsGoodFleet}
use Rattle.board_core.specs.declared.entry.Entry.{Entry}
use Rattle.board_core.specs.declared.waiting.Waiting.{Waiting}
use Rattle.board_core.specs.BoardViews.{board_of}
use Rattle.board_core.specs.Boards.{Board, oldest_unheld}
use Rattle.board_core.specs.Histories.{Legal}
use Rattle.board_core.specs.Laws.{HistoriesRaiseVersions}
use Rattle.interleave_core.specs.declared.event.Event.TheVariants.{Submit, Claim, Price, Commit, Back, Advance, Shut}
use Rattle.interleave_core.specs.declared.holding.Holding.TheVariants.{Nothing, Claimed, Priced}
use Rattle.interleave_core.specs.declared.world.World.{World}
use Rattle.interleave_core.specs.Plays.{Act, Adds, BackAct, ClaimAct, CommitAct, IsIdle, Play, PriceAct, ShutAct}
use Rattle.interleave_core.specs.States.{Event, Holding, State, holding_of, with_holding}
use Rattle.interleave_core.specs.WorldLaws.{HasActed, IsAsBefore}
use Rattle.interleave_core.specs.Worlds.{AreEventsFor, HasPlayed, IsEventFor, IsWorldOver, KeepsSoundness, StaySound, StaysLegal, state_of}

-- What lists of events add.

-- what is so of each event: its entries, one at most, are lawful, and the actors stay as many
pub record IsSmall {I : Type 0} (g : Roads) (s : State I) (entries : List Entry) (after : State I) : Type 0 where
  pub legal : Legal g s.board entries after.board
  pub few : length entries ≤ 1
  pub many : length after.actors ≡ length s.actors

small_idle : {I : Type 0} (g : Roads) (s : State I) (entries : List Entry) (after : State I) → IsIdle s entries after → IsSmall g s entries after
small_idle {I = I} g s entries after idle = record {
  legal = subst (λ (l : List Entry). Legal g s.board l after.board) (sym idle.0) (ap (λ (x : State I). x.board) idle.1);
  few = omega (arith, ap (λ (l : List Entry). length l) idle.0);
  many = ap (λ (x : State I). length x.actors) idle.1;
}

small_adds : {I : Type 0} (g : Roads) (s : State I) (e : Entry) (holdings : List (Holding I)) (entries : List Entry) (after : State I) → length holdings ≡ length s.actors → Adds g s e holdings entries after
    → IsSmall g s entries after
small_adds {I = I} g s e holdings entries after many adds = record {
  legal = subst (λ (l : List Entry). Legal g s.board l after.board) (sym adds.0) (after.board, adds.1, refl);
  few = omega (arith, ap (λ (l : List Entry). length l) adds.0);
  many = ap (λ (l : List (Holding I)). length l) adds.2 ∙ many;
}

small_shuts : {I : Type 0} (g : Roads) (s : State I) (closed : Bool) (entries : List Entry) (after : State I) → ShutAct g s closed entries after → IsSmall g s entries after
small_shuts g s true entries after h = small_idle g s entries after h
small_shuts g s false entries after h = small_adds g s _ s.actors entries after refl h

small_claims : {I : Type 0} (g : Roads) (s : State I) (k : ℕ) (o : Option (Holding I)) (w : Option Waiting) (entries : List Entry) (after : State I) → ClaimAct g s k o w entries after → IsSmall g s entries after
small_claims g s k None w entries after h = small_idle g s entries after h
small_claims g s k (Some (Claimed r f)) w entries after h = small_idle g s entries after h
small_claims g s k (Some (Priced r c)) w entries after h = small_idle g s entries after h
small_claims g s k (Some Nothing) None entries after h = small_idle g s entries after h
small_claims g s k (Some Nothing) (Some w) entries after h = small_adds g s _ (with_holding s k (Claimed w.request h.0)) entries after (length-set s.actors k (Claimed w.request h.0)) h.2

small_prices : {I : Type 0} (g : Roads) (s : State I) (k : ℕ) (o : Option (Holding I)) (entries : List Entry) (after : State I) → PriceAct g s k o entries after → IsSmall g s entries after
small_prices g s k None entries after h = small_idle g s entries after h
small_prices g s k (Some Nothing) entries after h = small_idle g s entries after h
small_prices g s k (Some (Priced r c)) entries after h = small_idle g s entries after h
small_prices {I = I} g s k (Some (Claimed r f)) entries after h = record {
  legal = subst (λ (l : List Entry). Legal g s.board l after.board) (sym h.3) (ap (λ (x : State I). x.board) h.4);
  few = omega (arith, ap (λ (l : List Entry). length l) h.3);
  many = ap (λ (x : State I). length x.actors) h.4 ∙ length-set s.actors k (Priced r h.0);
}

small_commits : {I : Type 0} (g : Roads) (s : State I) (k : ℕ) (o : Option (Holding I)) (entries : List Entry) (after : State I) → CommitAct g s k o entries after → IsSmall g s entries after
small_commits g s k None entries after h = small_idle g s entries after h
small_commits g s k (Some Nothing) entries after h = small_idle g s entries after h
small_commits g s k (Some (Claimed r f)) entries after h = small_idle g s entries after h
small_commits g s k (Some (Priced r c)) entries after h = small_adds g s _ (with_holding s k Nothing) entries after (length-set s.actors k Nothing) h.1

small_backs : {I : Type 0} (g : Roads) (s : State I) (k : ℕ) (o : Option (Holding I)) (entries : List Entry) (after : State I) → BackAct g s k o entries after → IsSmall g s entries after
small_backs g s k None entries after h = small_idle g s entries after h
small_backs g s k (Some Nothing) entries after h = small_idle g s entries after h
small_backs g s k (Some (Claimed r f)) entries after h = small_adds g s _ (with_holding s k Nothing) entries after (length-set s.actors k Nothing) h
small_backs g s k (Some (Priced r c)) entries after h = small_adds g s _ (with_holding s k Nothing) entries after (length-set s.actors k Nothing) h

pub small : {I : Type 0} (g : Roads) (s : State I) (e : Event) (entries : List Entry) (after : State I) → Act g s e entries after → IsSmall g s entries after
small g s (Submit r) entries after h = small_adds g s _ s.actors entries after refl h.1
small g s (Claim k) entries after h = small_claims g s k (holding_of s k) (oldest_unheld s.board) entries after h
small g s (Price k) entries after h = small_prices g s k (holding_of s k) entries after h
small g s (Commit k) entries after h = small_commits g s k (holding_of s k) entries after h
small g s (Back k) entries after h = small_backs g s k (holding_of s k) entries after h
small g s (Advance now) entries after h = small_adds g s _ s.actors entries after refl h.1
small g s Shut entries after h = small_shuts g s s.board.closed entries after h

-- ---- histories one after another

legal_on : (g : Roads) (first mid last : Board) (before after : List Entry) → Legal g first before mid → Legal g mid after last → Legal g first (before ++ after) last
legal_on g first mid last [] after h rest = subst (λ (b : Board). Legal g b after last) h rest
legal_on g first mid last (e ∷ before) after h rest = (h.0, h.1, legal_on g h.0 mid last before after h.2 rest)

pub stays_legal : {I : Type 0} (g : Roads) (old new : World I) (events : List Event) → HasPlayed g old events new → StaysLegal g old new
stays_legal g old new events h first before =
    subst (λ (l : List Entry). Legal g first l (board_of new.board)) (sym h.journal)
    (legal_on g first (board_of old.board) (board_of new.board) old.journal.items h.entries before h.legal)

-- ---- one event more

play_on : {I : Type 0} (g : Roads) (s mid after : State I) (events : List Event) (e : Event) (entries more : List Entry) → Play g s events entries mid → Act g mid e more after
    → Play g s (events ++ e ∷ []) (entries ++ more) after
play_on {I = I} g s mid after [] e entries more h act =
    (more, [], after, subst (λ (x : State I). Act g x e more after) h.1 act, (refl, refl), ap (λ (l : List Entry). l ++ more) h.0 ∙ sym (append-nil more))
play_on g s mid after (first ∷ events) e entries more h act =
    (h.0, h.1 ++ more, h.2, h.3, play_on g h.2 mid after events e h.1 more h.4 act, ap (λ (l : List Entry). l ++ more) h.5 ∙ append_assoc h.0 h.1 more)

take_on : {X : Type 0} (xs : List X) (i : ℕ) (x : X) → slice_get xs i ≡ Some x → take (suc i) xs ≡ take i xs ++ x ∷ []
take_on [] i x h = cc
take_on (y ∷ xs) zero x h = let same : y ≡ x = cc in ap (λ z. z ∷ []) same
take_on (y ∷ xs) (suc i) x h = ap (λ (l : List _). y ∷ l) (take_on xs i x h)

pub none_played : {I : Type 0} (g : Roads) (w : World I) (events : List Event) → HasPlayed g w (take 0 events) w
none_played g w events = record { entries = []; play = (refl, refl); journal = sym (append-nil w.journal.items); legal = refl; few = omega arith }

pub more_played : {I : Type 0} (g : Roads) (old mid new : World I) (events : List Event) (i : ℕ) (e : Event) → slice_get events i ≡ Some e → HasPlayed g old (take i events) mid → HasActed g mid e new
    → HasPlayed g old (take (i + 1) events) new
more_played g old mid new events i e here h act = record {
  entries = h.entries ++ act.entries;
  play = subst (λ (l : List Event). Play g (state_of old) l (h.entries ++ act.entries) (state_of new)) (sym (ap (λ (n : ℕ). take n events) (add-one i) ∙ take_on events i e here))
      (play_on g (state_of old) (state_of mid) (state_of new) (take i events) e h.entries act.entries h.play act.act);
  journal = act.journal ∙ ap (λ (l : List Entry). l ++ act.entries) h.journal ∙ append_assoc old.journal.items h.entries act.entries;
  legal = legal_on g (board_of old.board) (board_of mid.board) (board_of new.board) h.entries act.entries h.legal one.legal;
  few = omega (arith, length-append h.entries act.entries, h.few, one.few, many);
}
  where
    one : IsSmall g (state_of mid) act.entries (state_of new)
    one = small g (state_of mid) e act.entries (state_of new) act.act

    many : length (take (i + 1) events) ≡ length (take i events) + 1
    many = ap (λ (l : List Event). length l) (ap (λ (n : ℕ). take n events) (add-one i) ∙ take_on events i e here) ∙ length-append (take i events) (e ∷ [])

-- the version rises by one at most, and the actors stay as many
pub acted_version : {I : Type 0} (g : Roads) (old new : World I) (e : Event) → HistoriesRaiseVersions → HasActed g old e new → (board_of new.board).fleet.version ≤ (board_of old.board).fleet.version + 1
acted_version g old new e law h =
    let s = small g (state_of old) e h.entries (state_of new) h.act in
    omega (arith, (law g (board_of old.board) h.entries (board_of new.board) s.legal).version, s.few)

pub acted_many : {I : Type 0} (g : Roads) (old new : World I) (e : Event) → HasActed g old e new → length new.actors.items ≡ length old.actors.items
acted_many g old new e h = (small g (state_of old) e h.entries (state_of new) h.act).many

-- a refused event leaves what was played
pub still_played : {I : Type 0} (g : Roads) (old mid new : World I) (events : List Event) → HasPlayed g old events mid → IsAsBefore mid new → HasPlayed g old events new
still_played {I = I} g old mid new events h same = record {
  entries = h.entries;
  play = subst (λ (s : State I). Play g (state_of old) events h.entries s) (sym same.state) h.play;
  journal = same.journal ∙ h.journal;
  legal = subst (λ (s : State I). Legal g (board_of old.board) h.entries s.board) (sym same.state) h.legal;
  few = h.few;
}

-- all events were played
take_whole : {X : Type 0} (xs : List X) (i : ℕ) → length xs ≤ i → take i xs ≡ xs
take_whole [] zero le = refl
take_whole [] (suc i) le = refl
take_whole (x ∷ xs) zero le = absurd (omega (arith, le))
take_whole (x ∷ xs) (suc i) le = ap (λ (l : List _). x ∷ l) (take_whole xs i (omega (arith, le)))

pub whole_played : {I : Type 0} (g : Roads) (old new : World I) (events : List Event) (i : ℕ) → length events ≤ i → HasPlayed g old (take i events) new → HasPlayed g old events new
whole_played g old new events i le h = subst (λ (l : List Event). HasPlayed g old l new) (take_whole events i le) h

pub event_for : (events : List Event) (actors many : ℕ) → AreEventsFor actors events → many ≡ actors → (i : ℕ) → i < length events → (d : Event) → IsEventFor many (get_or events i d)
event_for events actors many all same i lt d =
    subst (λ (n : ℕ). IsEventFor n (get_or events i d)) (sym same) (all i (get_or events i d) (slice_get-get_or events i d lt))

-- ---- candidates

sound_on : (g : Roads) (old new : Board) (entries : List Entry) (r : Request) → EntriesKeepSoundness → IsGraph g → IsGoodFleet g old.fleet → length entries ≤ 1 → Legal g old entries new
    → StaySound g old.fleet new.fleet r
sound_on g old new [] r law graph good few legal c s = subst (λ (b : Board). AreSound g b.fleet r c) (sym legal) s
sound_on g old new (e ∷ []) r law graph good few legal c s = subst (λ (b : Board). AreSound g b.fleet r c) (sym legal.2) (law g old e legal.0 r c graph good legal.1 s)
sound_on g old new (e ∷ f ∷ entries) r law graph good few legal c s = absurd (omega (arith, few))

pub acted_sound : {I : Type 0} (fits : I → Fitting) (g : Roads) (old new : World I) (e : Event) → EntriesKeepSoundness → IsWorldOver fits g old → HasActed g old e new → KeepsSoundness g old new
acted_sound fits g old new e law over h r =
    let one = small g (state_of old) e h.entries (state_of new) h.act in
    sound_on g (board_of old.board) (board_of new.board) h.entries r law over.graph over.good.0 one.few one.legal

pub sound_before : {I : Type 0} (g : Roads) (old mid new : World I) → KeepsSoundness g old mid → IsAsBefore mid new → KeepsSoundness g old new
sound_before {I = I} g old mid new kept same r c s = subst (λ (x : State I). AreSound g x.board.fleet r c) (sym same.state) (kept r c s)

pub sound_after : {I : Type 0} (g : Roads) (old mid new : World I) → KeepsSoundness g old mid → KeepsSoundness g mid new → KeepsSoundness g old new
sound_after g old mid new first then r c s = then r c (first r c s)

pub sound_at_first : {I : Type 0} (g : Roads) (w : World I) → KeepsSoundness g w w
sound_at_first g w r c s = s
