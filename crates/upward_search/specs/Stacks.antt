use Rattle.std.specs.Prelude.{◌≡◌, ℕ, ◌+◌, ◌≤◌, List, Some}
use Rattle.upward_search.specs.declared.slope.Label.{Label}
use Rattle.upward_search.specs.declared.backing.Rung.{Rung}
use Rattle.upward_search.specs.declared.unpacking.Part.{Part}
use Rattle.upward_search.specs.Ladders.{Ladder, IsLeastTop}
use Rattle.upward_search.specs.WaysBack.{AreRungs, rungs_length}
use Rattle.upward_search.specs.Parts.{AreWaiting, parts_length}
use Rattle.upward_search.specs.Lines.{IsLine}

-- parts lead from where a way up begins to where a way down ends
pub record AreStacked (up down : List Rung) (parts : List Part) : Type 0 where
  pub leads : (h : Ladder) (p q top : ℕ) → AreRungs h.climbs p top up → AreRungs h.falls q top down → AreWaiting h p q parts
  pub long : parts_length parts ≡ rungs_length up + rungs_length down

-- the same while arcs of the way down are left
pub record AreFalling (down left : List Rung) (parts : List Part) : Type 0 where
  pub leads : (h : Ladder) (q top : ℕ) → AreRungs h.falls q top down → (c : ℕ) × AreWaiting h c q parts × AreRungs h.falls c top left
  pub long : parts_length parts + rungs_length left ≡ rungs_length down

-- and while arcs of the way up are
pub record AreClimbing (up down left : List Rung) (parts : List Part) : Type 0 where
  pub leads : (h : Ladder) (p q top : ℕ) → AreRungs h.climbs p top up → AreRungs h.falls q top down → (c : ℕ) × AreWaiting h c q parts × AreRungs h.climbs p c left
  pub long : parts_length parts + rungs_length left ≡ rungs_length up + rungs_length down

-- roads between two places of a length at most that of arcs
pub record IsLineTo (h : Ladder) (p q most : ℕ) (line : List Label) (run : ℕ) : Type 0 where
  pub length : ℕ
  pub is : IsLine h p line run q length
  pub short : length ≤ most

pub record IsOnWay (h : Ladder) (p q most : ℕ) (line : List Label) (run : ℕ) (parts : List Part) : Type 0 where
  pub here : ℕ
  pub length : ℕ
  pub is : IsLine h p line run here length
  pub waits : AreWaiting h here q parts
  pub short : length + parts_length parts ≤ most

-- roads of the least length over a higher place
pub record IsLeastLine (h : Ladder) (p q : ℕ) (line : List Label) (run : ℕ) : Type 0 where
  pub length : ℕ
  pub least : IsLeastTop h p q (Some length)
  pub is : IsLineTo h p q length line run
