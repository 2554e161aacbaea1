use Rattle.std.proofs.Common.{◌≡◌, ℕ, suc, ◌+◌, ◌-◌, ◌*◌, ◌<◌, ◌≤◌, ◌^◌, List, [], ◌∷◌, ◌++◌, drop, length, slice_get, Option, Some, refl, sym, ap, ◌∙◌, subst, arith, add-one, ⊎_elim, length-append}
use Rattle.std.specs.Prelude.{option_map}
use Rattle.std.proofs.lemmas.List.{drop_all}
use Rattle.std.proofs.lemmas.Option.{slice_get-map, slice_get_within}
use Rattle.road_graph.specs.declared.road.NodeNo.{NodeNo}
use Rattle.road_graph.specs.Paths.{Path, length_of}
use Rattle.leeway.specs.Leeways.{limit_left, limit_reached, leaves_stop_by}
use Rattle.stop_schedule.specs.declared.stop.SeatKind.{SeatKind}
use Rattle.stop_schedule.specs.declared.stop.SeatKind.TheVariants.{Seat, Space}
use Rattle.stop_schedule.specs.declared.stop.Start.{Start}
use Rattle.stop_schedule.specs.declared.stop.Stop.{Stop}
use Rattle.stop_schedule.specs.Plans.{Plan, Course, halt_at}
use Rattle.stop_schedule.specs.Times.{halt_time, taking, getting_on, getting_off}
use Rattle.stop_schedule.proofs.ListLaws.{drop_from}
use Rattle.insertion_cost.specs.declared.behind.Behind.{Behind}
use Rattle.insertion_cost.specs.declared.driving.Riders.{Riders}
use Rattle.insertion_cost.specs.Behind.{busy_behind, AreRiders, IsBehind, AreBehindTo}
use Rattle.insertion_cost.specs.Changes.{course_from}
use Rattle.insertion_cost.proofs.Aboard.{on_few, off_few, on_from, off_from}
use Rattle.insertion_cost.proofs.Pushed.{push_cases}

-- the riders of one stop more
riders_more : (seat : SeatKind) (stops : List Stop) (k : ℕ) (s : Stop) (old new : Riders) → slice_get stops k ≡ Some s → AreRiders seat (drop (k + 1) stops) old → new.on ≡ old.on + getting_on seat s s.kind → new.off ≡ old.off + getting_off seat s s.kind
    → AreRiders seat (drop k stops) new
riders_more seat stops k s old new there are on off = record {
  on = (let from = on_from seat stops k s there in let e = are.on in omega arith);
  off = (let from = off_from seat stops k s there in let e = are.off in omega arith);
}

few_more : (seat : SeatKind) (m k : ℕ) (s : Stop) (old new : Riders) → k < m → taking seat s ≤ 16 → (old.on ≤ (m - (k + 1)) * 16) × (old.off ≤ (m - (k + 1)) * 16) → new.on ≡ old.on + getting_on seat s s.kind → new.off ≡ old.off + getting_off seat s s.kind
    → (new.on ≤ (m - k) * 16) × (new.off ≤ (m - k) * 16)
few_more seat m k s old new l few are on off =
    let ons = on_few seat s s.kind in
    let offs = off_few seat s s.kind in
    let more : m - k ≡ m - (k + 1) + 1 = omega arith in
    rw more (omega (arith, are), omega (arith, are))

busy_more : (stop : ℕ) (c : Course) (k x : ℕ) (s : Stop) → slice_get c.stops k ≡ Some s → slice_get c.lengths k ≡ Some x → busy_behind stop c k ≡ x + halt_time stop (halt_at c k) s.node + busy_behind stop c (suc k)
busy_more stop c k x s there long = rw (drop_from c.stops k s there, drop_from c.lengths k x long, there) refl

leaves_more : (stop until : ℕ) (c : Course) (k x : ℕ) (s : Stop) → slice_get c.stops k ≡ Some s → slice_get c.lengths k ≡ Some x
    → leaves_stop_by stop until c k ≡ limit_reached s s.kind (limit_left s s.kind (leaves_stop_by stop until c (suc k)) - halt_time stop (halt_at c k) s.node) - x
leaves_more stop until c k x s there long = rw (drop_from c.stops k s there, drop_from c.lengths k x long, there) refl

-- what lies behind a stop, by what lies behind the next one
pub behind_more : (stop until : ℕ) (start : Start) (p : Plan) (k x takes leaves : ℕ) (halt : Option NodeNo) (s : Stop) (leg : Path) (b : Behind) (seats spaces : Riders) → let c = course_from start p in
    slice_get p.stops k ≡ Some s → slice_get p.legs k ≡ Some leg → x ≡ length_of leg → halt ≡ halt_at c k → takes ≡ halt_time stop halt s.node → leaves ≡ limit_reached s s.kind (limit_left s s.kind b.leaves_by - takes) - x
    → seats.on ≡ b.on_seats.on + getting_on Seat s s.kind → seats.off ≡ b.on_seats.off + getting_off Seat s s.kind → spaces.on ≡ b.in_spaces.on + getting_on Space s s.kind → spaces.off ≡ b.in_spaces.off + getting_off Space s s.kind
    → x < 2 ^ 53 → takes ≤ 65536 → taking Seat s ≤ 16 → taking Space s ≤ 16 → IsBehind stop until c (k + 1) b
    → IsBehind stop until c k (record { busy_time = b.busy_time + (x + takes); leaves_by = leaves; on_seats = seats; in_spaces = spaces })
behind_more stop until start p k x takes leaves halt s leg b seats spaces there way long halts t by on off in_on in_off short quick few few_in is =
    let c = course_from start p in
    let within = slice_get_within p.stops k s there in
    let length_there : slice_get c.lengths k ≡ Some x = slice_get-map length_of p.legs k ∙ ap (option_map length_of) way ∙ ap (λ (m : ℕ). Some m) (sym long) in
    let takes_is : takes ≡ halt_time stop (halt_at c k) s.node = t ∙ ap (λ (h : Option NodeNo). halt_time stop h s.node) halts in
    let busy = busy_more stop c k x s there length_there in
    let leaves_is = leaves_more stop until c k x s there length_there in
    let busy_next : b.busy_time ≡ busy_behind stop c (suc k) = is.busy_time ∙ ap (busy_behind stop c) (add-one k) in
    let leaves_next : b.leaves_by ≡ leaves_stop_by stop until c (suc k) = is.leaves_by ∙ ap (leaves_stop_by stop until c) (add-one k) in
    record {
      busy_time = omega (arith, busy, busy_next, takes_is);
      leaves_by = by ∙ rw (leaves_next, takes_is) (sym leaves_is);
      on_seats = riders_more Seat p.stops k s b.on_seats seats there is.on_seats on off;
      in_spaces = riders_more Space p.stops k s b.in_spaces spaces there is.in_spaces in_on in_off;
      short = (let older = is.short in let more : length p.stops - k ≡ length p.stops - (k + 1) + 1 = omega arith in rw more (omega arith));
      few_on_seats = few_more Seat (length p.stops) k s b.on_seats seats within few is.few_on_seats on off;
      few_in_spaces = few_more Space (length p.stops) k s b.in_spaces spaces within few_in is.few_in_spaces in_on in_off;
    }

-- behind the last stop
pub behind_end : (stop until : ℕ) (c : Course) → IsBehind stop until c (length c.stops) (record { busy_time = 0; leaves_by = until; on_seats = record { on = 0; off = 0 }; in_spaces = record { on = 0; off = 0 } })
behind_end stop until c =
    let none = drop_all (length c.stops) c.stops (omega arith) in
    record {
      busy_time = rw none refl;
      leaves_by = rw none refl;
      on_seats = record { on = rw none refl; off = rw none refl };
      in_spaces = record { on = rw none refl; off = rw none refl };
      short = omega arith;
      few_on_seats = (omega arith, omega arith);
      few_in_spaces = (omega arith, omega arith);
    }

-- the rows so far, and one more
pub rows_one : (stop until : ℕ) (c : Course) (b : Behind) (old rows : List Behind) → old ≡ [] → rows ≡ old ++ b ∷ [] → IsBehind stop until c (length c.stops) b → AreBehindTo stop until c 1 rows
rows_one stop until c b old rows none e is = subst (λ (l : List Behind). AreBehindTo stop until c 1 l) (sym (e ∙ ap (λ (l : List Behind). l ++ b ∷ []) none)) (record { many = refl; each = one })
  where
    one : (k i : ℕ) (d : Behind) → slice_get (b ∷ []) k ≡ Some d → k + i ≡ length c.stops → IsBehind stop until c i d
    one k i d there far =
        ⊎_elim (λ before. absurd (let l = slice_get_within [] k d before in omega arith))
        (λ last. subst (λ (z : Behind). IsBehind stop until c i z) last.1 (subst (λ (n : ℕ). IsBehind stop until c n b) (let here = last.0 in omega arith) is))
        (push_cases [] b d k there)

pub rows_more : (stop until : ℕ) (c : Course) (n i : ℕ) (b : Behind) (old rows : List Behind) → AreBehindTo stop until c (n + 1) old → rows ≡ old ++ b ∷ [] → n + 1 + i ≡ length c.stops → IsBehind stop until c i b → AreBehindTo stop until c (n + 1 + 1) rows
rows_more stop until c n i b old rows are e far is = subst (λ (l : List Behind). AreBehindTo stop until c (n + 1 + 1) l) (sym e) (record {
  many = (let m = are.many in let more = length-append old (b ∷ []) in omega arith);
  each = λ k h d there sum_is. ⊎_elim (λ before. are.each k h d before sum_is)
      (λ last. subst (λ (z : Behind). IsBehind stop until c h z) last.1 (subst (λ (l : ℕ). IsBehind stop until c l b) (let here = last.0 in let m = are.many in omega arith) is))
      (push_cases old b d k there);
})
