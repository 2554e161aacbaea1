use Rattle.std.proofs.Common.{◌≡◌, ℕ, List, ap, sym, ◌∙◌}
use Rattle.stop_schedule.specs.Fleets.{Car, Cars}
use Rattle.stop_schedule.specs.Rates.{Rates}
use Rattle.board_core.specs.FleetViews.{cars_of}
use Rattle.board_core.specs.declared.fleet.Fleet.{Fleet}

-- fleets with equal parts
fleet_by : {I : Type 0} (p q : Rates) (a b v w : ℕ) (xs ys : List Car) (i j : I) → p ≡ q → a ≡ b → v ≡ w → xs ≡ ys → i ≡ j
    → let f : Fleet I = record { params = p; clock = a; version = v; cars = xs; index = i } in
    let h : Fleet I = record { params = q; clock = b; version = w; cars = ys; index = j } in f ≡ h
fleet_by p q a b v w xs ys i j e k l m n = cc

-- a fleet that differs from another one by its version alone is a copy of that one with its version
pub same_fleet : {I : Type 0} (copy old new : Fleet I) (version v : ℕ) → copy ≡ old → cars_of new ≡ record (cars_of old) { version = version }
    → new.index ≡ old.index → v ≡ new.version → record copy { version = v } ≡ new
same_fleet copy old new version v same e i q =
    fleet_by copy.params new.params copy.clock new.clock v new.version copy.cars new.cars copy.index new.index
    (ap (λ (f : Fleet _). f.params) same ∙ sym (ap (λ (c : Cars). c.rates) e))
    (ap (λ (f : Fleet _). f.clock) same ∙ sym (ap (λ (c : Cars). c.clock) e))
    q
    (ap (λ (f : Fleet _). f.cars) same ∙ sym (ap (λ (c : Cars). c.cars) e))
    (ap (λ (f : Fleet _). f.index) same ∙ sym i)
