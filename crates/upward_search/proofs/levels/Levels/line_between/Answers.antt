use Rattle.std.proofs.Common.{arith, subst, sym, List, None, Some}
use Rattle.std.proofs.lemmas.Option.{slice_get_within}
use Rattle.upward_search.specs.declared.slope.Label.{Label}
use Rattle.upward_search.specs.declared.backing.Rung.{Rung}
use Rattle.upward_search.specs.Climbs.{IsSpace}
use Rattle.upward_search.specs.Stacks.{AreStacked}
use Rattle.upward_search.proofs.LadderFits.{short_in, least_top}
use Rattle.upward_search.proofs.IsOnWay.{stacked_way}
use Rattle.upward_search.proofs.levels.Levels.line_between.Goals as goal

abbrev no_label : Label
no_label = record { place = 0; length = 0 }

pub least_sum-requires-clause-short : goal.least_sum-requires-clause-short
least_sum-requires-clause-short g c = short_in c.args.self.now.climbs c.args.from c.in_ok-left.left c.as_slice-ups.result.now c.in_ok-left.ensures.space c.as_slice-ups.ensures

pub least_sum-requires-clause-low : goal.least_sum-requires-clause-low
least_sum-requires-clause-low g c = short_in c.args.self.now.falls c.args.to c.in_ok-right.right c.as_slice-downs.result.now c.in_ok-right.ensures.space c.as_slice-downs.ensures

pub returns-in_default-clause-line : goal.returns-in_default-clause-line
returns-in_default-clause-line g c = least_top c.args.self.now c.args.from c.args.to c.as_slice-ups.result.now c.as_slice-downs.result.now
    (subst (IsSpace c.args.self.now.climbs c.args.from) (sym c.as_slice-ups.ensures) c.in_ok-left.ensures.space) (subst (IsSpace c.args.self.now.falls c.args.to) (sym c.as_slice-downs.ensures) c.in_ok-right.ensures.space) None c.in_default.ensures

pub top_of-requires-clause-short : goal.top_of-requires-clause-short
top_of-requires-clause-short g c = short_in c.args.self.now.climbs c.args.from c.in_ok-left.left c.as_slice-ups.result.now c.in_ok-left.ensures.space c.as_slice-ups.ensures

pub top_of-requires-clause-low : goal.top_of-requires-clause-low
top_of-requires-clause-low g c = short_in c.args.self.now.falls c.args.to c.in_ok-right.right c.as_slice-downs.result.now c.in_ok-right.ensures.space c.as_slice-downs.ensures

pub climbed_back-requires-clause-top : goal.climbed_back-requires-clause-top
climbed_back-requires-clause-top g c = slice_get_within c.as_slice-ups.result.now c.in-Some-top_of.index c.in-Some-top_of.ensures.r c.in-Some-top_of.ensures.stands

pub climbed_back-requires-2-clause-top : goal.climbed_back-requires-2-clause-top
climbed_back-requires-2-clause-top g c = slice_get_within c.as_slice-downs.result.now c.in-Some-top_of.other c.in-Some-top_of.ensures.joint.label c.in-Some-top_of.ensures.joint.stands

pub unpacked-requires : goal.unpacked-requires
unpacked-requires g c =
    (stacked_way c.args.self.now c.args.from c.args.to c.in-Some-top_of.index c.in-Some-top_of.other c.in-Some.total no_label no_label c.as_slice-ups.result.now c.as_slice-downs.result.now c.in-Some-top_of.ensures c.in_ok-up.up.items c.in_ok-down.down.items c.in_ok-parts.parts.items
    (c.in_ok-up.ensures c.args.from no_label (subst (IsSpace c.args.self.now.climbs c.args.from) (sym c.as_slice-ups.ensures) c.in_ok-left.ensures.space)) (c.in_ok-down.ensures c.args.to no_label (subst (IsSpace c.args.self.now.falls c.args.to) (sym c.as_slice-downs.ensures) c.in_ok-right.ensures.space))
    (subst (λ (gs : List Rung). AreStacked gs c.in_ok-down.down.items c.in_ok-parts.parts.items) c.as_slice.ensures.value c.in_ok-parts.ensures)).0

pub returns-clause-line : goal.returns-clause-line
returns-clause-line g c =
    let way = stacked_way c.args.self.now c.args.from c.args.to c.in-Some-top_of.index c.in-Some-top_of.other c.in-Some.total no_label no_label c.as_slice-ups.result.now c.as_slice-downs.result.now c.in-Some-top_of.ensures c.in_ok-up.up.items c.in_ok-down.down.items c.in_ok-parts.parts.items
    (c.in_ok-up.ensures c.args.from no_label (subst (IsSpace c.args.self.now.climbs c.args.from) (sym c.as_slice-ups.ensures) c.in_ok-left.ensures.space)) (c.in_ok-down.ensures c.args.to no_label (subst (IsSpace c.args.self.now.falls c.args.to) (sym c.as_slice-downs.ensures) c.in_ok-right.ensures.space))
    (subst (λ (gs : List Rung). AreStacked gs c.in_ok-down.down.items c.in_ok-parts.parts.items) c.as_slice.ensures.value c.in_ok-parts.ensures) in
    let long = way.1 in
    let line = c.in_ok-line.ensures in
    record {
      length = c.in-Some.total;
      least = least_top c.args.self.now c.args.from c.args.to c.as_slice-ups.result.now c.as_slice-downs.result.now (subst (IsSpace c.args.self.now.climbs c.args.from) (sym c.as_slice-ups.ensures) c.in_ok-left.ensures.space) (subst (IsSpace c.args.self.now.falls c.args.to) (sym c.as_slice-downs.ensures) c.in_ok-right.ensures.space) (Some c.in-Some.total) c.in-Some.ensures;
      is = record { length = line.length; is = line.is; short = (let s = line.short in omega arith) };
    }
