use Rattle.std.proofs.Common.{◌∙◌, ap, sym, subst, arith}
use Rattle.road_graph.specs.declared.road.NodeNo.{NodeNo}
use Rattle.contraction.specs.declared.search.Search.{Search}
use Rattle.contraction.specs.Searching.{IsSearch, IsLed}
use Rattle.contraction.proofs.AreStanding.{row_read}
use Rattle.contraction.proofs.IsSearch.{led_on, light_at}
use Rattle.contraction.proofs.search.Search.spread.Goals as goal
use Rattle.contraction.proofs.search.Search.spread.Goals.{then-ne+then-key-most+in_ok-offer, else-ne}

pub overflow_add-key : goal.overflow_add-key
overflow_add-key c =
    let e = c.as_slice-arc-items.ensures ∙ row_read c.args.rows.now c.args.nearest.node c.index-rows-place.result c.requires.led.within c.index-rows-place.is in
    let l = light_at c.args.rows.now c.args.nearest.node c.as_slice-arc-items.result.now c.loop-arc.arc-index c.requires.sound e c.loop-arc-test.true in
    omega arith

pub offer-requires : goal.offer-requires
offer-requires c =
    let e = c.as_slice-arc-items.ensures ∙ row_read c.args.rows.now c.args.nearest.node c.index-rows-place.result c.requires.led.within c.index-rows-place.is in
    let l = (led_on c.args.rows.now c.args.self.now.start c.args.nearest c.as_slice-arc-items.result.now c.loop-arc.arc-index c.requires.sound c.requires.led e c.loop-arc-test.true).within in
    let m = c.loop-arc.invariant.search.marked.many in
    omega arith

pub loop-arc-preserved : goal.loop-arc-preserved
loop-arc-preserved c =
    let rows = c.args.rows.now in
    let old = c.loop-arc.invariant in
    let e = c.as_slice-arc-items.ensures ∙ row_read rows c.args.nearest.node c.index-rows-place.result c.requires.led.within c.index-rows-place.is in
    let here = subst (λ (u : NodeNo). IsLed rows u c.args.nearest) (sym old.start) c.requires.led in
    let led = led_on rows c.loop-arc.self.start c.args.nearest c.as_slice-arc-items.result.now c.loop-arc.arc-index c.requires.sound here e c.loop-arc-test.true in
    elim c.if-ne.branch [
      | then-ne+then-key-most+in_ok-offer w ↦ record {
        search = subst (IsSearch rows) (sym w.self-is) (w.in_ok-offer.ensures.admits rows old.search led);
        start = ap (λ (s : Search). s.start) w.self-is ∙ w.in_ok-offer.ensures.start ∙ old.start;
      }
      | else-ne w ↦ record { search = subst (IsSearch rows) (sym w.self-is) old.search; start = ap (λ (s : Search). s.start) w.self-is ∙ old.start }
    ]
