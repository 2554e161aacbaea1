-- A ladder with its falling arcs for climbing ones, and the distances that it then gives.
use Rattle.std.proofs.Common.{ℕ, Option, Some, None, arith}
use Rattle.road_graph.specs.declared.road.NodeNo.{NodeNo}
use Rattle.road_graph.specs.Roads.{Roads}
use Rattle.upward_search.specs.declared.way.Way.{Way}
use Rattle.upward_search.specs.declared.way.Way.TheVariants.{From, To}
use Rattle.upward_search.specs.Ladders.{Ladder, IsLadder, IsAt, IsOverPlace, IsTop, IsLeastTop, IsAnswerBy, faced}
use Rattle.upward_search.specs.Hierarchies.{LadderFits}
use Rattle.upward_search.proofs.LadderFits.{answer_is}

over_turned : (h : Ladder) (from to k x : ℕ) → IsOverPlace h from to k x → IsOverPlace (faced To h) to from k x
over_turned h from to k x o = record {
  lower = o.below;
  below = o.lower;
  fall = o.climb;
  falls = o.climbs;
  starts = o.ends;
  climb = o.fall;
  climbs = o.falls;
  ends = o.starts;
  sum = (let s = o.sum in omega arith);
}

pub ladder_faced : (way : Way) (h : Ladder) → IsLadder h → IsLadder (faced way h)
ladder_faced From h l = l
ladder_faced To h l = record {
  climbs_many = l.falls_many;
  falls_many = l.climbs_many;
  climbs_up = l.falls_up;
  falls_up = l.climbs_up;
  climbs_over = λ p a i lt. over_turned h a.to p a.middle a.length (l.falls_over p a i lt);
  falls_over = λ p a i lt. over_turned h p a.to a.middle a.length (l.climbs_over p a i lt);
}

top_turned : (h : Ladder) (p q x : ℕ) → IsTop (faced To h) p q x → IsTop h q p x
top_turned h p q x t = record { top = t.top; up = t.down; climbs = t.falls; down = t.up; falls = t.climbs; sum = (let s = t.sum in omega arith) }

turned_top : (h : Ladder) (p q x : ℕ) → IsTop h q p x → IsTop (faced To h) p q x
turned_top h p q x t = record { top = t.top; up = t.down; climbs = t.falls; down = t.up; falls = t.climbs; sum = (let s = t.sum in omega arith) }

least_turned : (h : Ladder) (p q : ℕ) (o : Option ℕ) → IsLeastTop (faced To h) p q o → IsLeastTop h q p o
least_turned h p q None none = λ x t. none x (turned_top h p q x t)
least_turned h p q (Some y) least = (top_turned h p q y least.0, λ x t. least.1 x (turned_top h p q x t))

-- the least over all ways is the distance, both ways
pub answer_by : (way : Way) (g : Roads) (h : Ladder) → LadderFits g h → IsLadder h → (p q : ℕ) (u v : NodeNo) → IsAt h p u → IsAt h q v → (o : Option ℕ) → IsLeastTop (faced way h) p q o → IsAnswerBy way g u v o
answer_by From g h f l p q u v a b o least = answer_is g h f l p q u v a b o least
answer_by To g h f l p q u v a b o least = answer_is g h f l q p v u b a o (least_turned h p q o least)
