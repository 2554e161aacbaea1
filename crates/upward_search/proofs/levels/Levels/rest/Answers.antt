use Rattle.std.proofs.Common.{arith, ap, ◌∙◌, refl, get_or, length, ℕ}
use Rattle.upward_search.specs.declared.slope.Arc.{Arc}
use Rattle.upward_search.specs.declared.slope.Label.{Label}
use Rattle.upward_search.specs.Rows.{row}
use Rattle.upward_search.specs.Ladders.{faced, climbs_by}
use Rattle.upward_search.proofs.FacedLadder.{ladder_faced}
use Rattle.upward_search.proofs.AreRests.{begin_rest, rest_more, rest_all, place_below, end_higher, end_low, arc_read, rest_read}
use Rattle.upward_search.proofs.levels.Levels.rest.Goals as goal

abbrev no_arc : Arc
no_arc = record { to = 0; length = 0; middle = 0 }

abbrev no_label : Label
no_label = record { place = 0; length = 0 }

pub row-arc-items-requires : goal.row-arc-items-requires
row-arc-items-requires g c = place_below _ c.args.space.now c.args.index _ c.requires.space c.requires.index

pub loop-arc-init : goal.loop-arc-init
loop-arc-init g c = record {
  least = begin_rest (faced c.args.way c.args.self.now) _ c.args.to c.args.down.now c.requires.down c.length_at-least.result c.length_at-least.ensures;
  asks = refl;
}

pub rest_of_end-requires-clause-higher : goal.rest_of_end-requires-clause-higher
rest_of_end-requires-clause-higher g c = end_higher (faced c.args.way c.args.self.now) (ladder_faced c.args.way c.args.self.now c.row-arc-items.ensures.ladder) c.args.space.now c.args.index no_label c.requires.index c.row-arc-items.result.now c.loop-arc.arc-index no_arc c.row-arc-items.ensures.row c.loop-arc-test.true

pub rest_of_end-requires-clause-end : goal.rest_of_end-requires-clause-end
rest_of_end-requires-clause-end g c = end_low (faced c.args.way c.args.self.now) (ladder_faced c.args.way c.args.self.now c.row-arc-items.ensures.ladder) (get_or c.args.space.now c.args.index no_label).place c.row-arc-items.result.now c.loop-arc.arc-index no_arc c.row-arc-items.ensures.row c.loop-arc-test.true

pub loop-arc-preserved : goal.loop-arc-preserved
loop-arc-preserved g c =
    let l = c.loop-arc.invariant in
    let p = (get_or c.args.space.now c.args.index no_label).place in
    record {
      least = rest_more (faced c.args.way c.args.self.now) p c.args.to c.loop-arc.arc-index (get_or c.row-arc-items.result.now c.loop-arc.arc-index no_arc)
          (arc_read (row (climbs_by c.args.way c.args.self.now) p) c.row-arc-items.result.now c.loop-arc.arc-index no_arc c.row-arc-items.ensures.row c.loop-arc-test.true)
          c.loop-arc.least c.in_ok-far.far c.over_arc-least.result l.least c.in_ok-far.ensures.rest c.over_arc-least.ensures;
      asks = c.in_ok-far.ensures.asks ∙ ap (λ (p : ℕ × ℕ). p.1) c.tick.ensures ∙ l.asks;
    }

pub returns-clause-rest : goal.returns-clause-rest
returns-clause-rest g c =
    rest_read (faced c.args.way c.args.self.now) c.args.to c.args.space.now c.args.index no_label c.requires.index c.loop-arc.least
    (rest_all (faced c.args.way c.args.self.now) (get_or c.args.space.now c.args.index no_label).place c.args.to c.loop-arc.arc-index c.loop-arc.least (let e = ap length c.row-arc-items.ensures.row in let out = c.loop-arc-test.false in omega arith) c.loop-arc.invariant.least)
