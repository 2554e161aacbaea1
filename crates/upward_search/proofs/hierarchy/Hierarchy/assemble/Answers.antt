use Rattle.std.proofs.Common.{ap, sym, subst, length, map, ◌∙◌, ◌+◌, ℕ, List}
use Rattle.std.proofs.lemmas.List.{length-map}
use Rattle.road_graph.specs.declared.road.NodeNo.{NodeNo}
use Rattle.upward_search.specs.declared.backing.Rung.{Rung}
use Rattle.upward_search.specs.Cuts.{AreRowsOf}
use Rattle.upward_search.specs.Hierarchies.{climbing_arc, falling_arc}
use Rattle.upward_search.specs.Orders.{AreBelow, climbing_rung, falling_rung}
use Rattle.upward_search.proofs.RankingOf.{length-arcs_by}
use Rattle.upward_search.proofs.Assemble.{placed, climbing_below, falling_below, climbing_within, falling_within, ladder, fits, put_read, within_read}
use Rattle.upward_search.proofs.hierarchy.Hierarchy.assemble.Goals as goal

pub climbing_rungs-requires : goal.climbing_rungs-requires
climbing_rungs-requires c = subst (λ (ps : List ℕ). AreBelow (length ps) c.args.climbing.now) (sym c.as_slice-2.ensures)
    (climbing_below c.args.graph.now c.args.ranks.now c.args.climbing.now c.args.falling.now c.requires c.in_ok-nodes.nodes c.in_ok-places.places c.in_ok-nodes.ensures (c.in_ok-places.ensures.many ∙ ap (λ (ns : List NodeNo). length ns + 1) c.as_slice.ensures) (put_read c.in_ok-nodes.nodes c.as_slice.result.now c.in_ok-places.places c.as_slice.ensures c.in_ok-places.ensures.put))

pub falling_rungs-requires : goal.falling_rungs-requires
falling_rungs-requires c = subst (λ (ps : List ℕ). AreBelow (length ps) c.args.falling.now) (sym c.as_slice-3.ensures)
    (falling_below c.args.graph.now c.args.ranks.now c.args.climbing.now c.args.falling.now c.requires c.in_ok-nodes.nodes c.in_ok-places.places c.in_ok-nodes.ensures (c.in_ok-places.ensures.many ∙ ap (λ (ns : List NodeNo). length ns + 1) c.as_slice.ensures) (put_read c.in_ok-nodes.nodes c.as_slice.result.now c.in_ok-places.places c.as_slice.ensures c.in_ok-places.ensures.put))

pub sorted-requires : goal.sorted-requires
sorted-requires c = record {
  within = within_read (length c.in_ok-nodes.nodes) c.len-count.result (map (climbing_rung c.in_ok-places.places) c.args.climbing.now) c.in_ok-ups.ups.items c.len-count.ensures (c.in_ok-ups.ensures ∙ ap (λ (ps : List ℕ). map (climbing_rung ps) c.args.climbing.now) c.as_slice-2.ensures)
      (climbing_within c.args.graph.now c.args.ranks.now c.args.climbing.now c.args.falling.now c.requires c.in_ok-nodes.nodes c.in_ok-places.places c.in_ok-nodes.ensures (c.in_ok-places.ensures.many ∙ ap (λ (ns : List NodeNo). length ns + 1) c.as_slice.ensures) (put_read c.in_ok-nodes.nodes c.as_slice.result.now c.in_ok-places.places c.as_slice.ensures c.in_ok-places.ensures.put));
}

pub sorted-requires-2 : goal.sorted-requires-2
sorted-requires-2 c = record {
  within = within_read (length c.in_ok-nodes.nodes) c.len-count.result (map (falling_rung c.in_ok-places.places) c.args.falling.now) c.in_ok-downs.downs.items c.len-count.ensures (c.in_ok-downs.ensures ∙ ap (λ (ps : List ℕ). map (falling_rung ps) c.args.falling.now) c.as_slice-3.ensures)
      (falling_within c.args.graph.now c.args.ranks.now c.args.climbing.now c.args.falling.now c.requires c.in_ok-nodes.nodes c.in_ok-places.places c.in_ok-nodes.ensures (c.in_ok-places.ensures.many ∙ ap (λ (ns : List NodeNo). length ns + 1) c.as_slice.ensures) (put_read c.in_ok-nodes.nodes c.as_slice.result.now c.in_ok-places.places c.as_slice.ensures c.in_ok-places.ensures.put));
}

pub invariant_of-result : goal.invariant_of-result
invariant_of-result c = (
  ladder c.args.graph.now c.args.ranks.now c.args.climbing.now c.args.falling.now c.requires c.in_ok-nodes.nodes c.in_ok-places.places c.in_ok-nodes.ensures (c.in_ok-places.ensures.many ∙ ap (λ (ns : List NodeNo). length ns + 1) c.as_slice.ensures) (put_read c.in_ok-nodes.nodes c.as_slice.result.now c.in_ok-places.places c.as_slice.ensures c.in_ok-places.ensures.put)
      c.in_ok-climbs.climbs c.in_ok-falls.falls (subst (λ (gs : List Rung). AreRowsOf gs c.in_ok-climbs.climbs) (c.in_ok-ups.ensures ∙ ap (λ (ps : List ℕ). map (climbing_rung ps) c.args.climbing.now) c.as_slice-2.ensures) c.in_ok-climbs.ensures.same)
      (subst (λ (gs : List Rung). AreRowsOf gs c.in_ok-falls.falls) (c.in_ok-downs.ensures ∙ ap (λ (ps : List ℕ). map (falling_rung ps) c.args.falling.now) c.as_slice-3.ensures) c.in_ok-falls.ensures.same)
      (c.in_ok-climbs.ensures.many ∙ c.len-count.ensures) (c.in_ok-falls.ensures.many ∙ c.len-count.ensures) c.in_ok-climbs.ensures.upward c.in_ok-falls.ensures.upward,
  placed c.args.graph.now c.args.ranks.now c.args.climbing.now c.args.falling.now c.requires c.in_ok-nodes.nodes c.in_ok-places.places c.in_ok-nodes.ensures (c.in_ok-places.ensures.many ∙ ap (λ (ns : List NodeNo). length ns + 1) c.as_slice.ensures) (put_read c.in_ok-nodes.nodes c.as_slice.result.now c.in_ok-places.places c.as_slice.ensures c.in_ok-places.ensures.put),
)

pub returns-clause-fits : goal.returns-clause-fits
returns-clause-fits c =
    fits c.args.graph.now c.args.ranks.now c.args.climbing.now c.args.falling.now c.requires c.in_ok-nodes.nodes c.in_ok-places.places c.in_ok-nodes.ensures (c.in_ok-places.ensures.many ∙ ap (λ (ns : List NodeNo). length ns + 1) c.as_slice.ensures) (put_read c.in_ok-nodes.nodes c.as_slice.result.now c.in_ok-places.places c.as_slice.ensures c.in_ok-places.ensures.put)
    c.in_ok-climbs.climbs c.in_ok-falls.falls (subst (λ (gs : List Rung). AreRowsOf gs c.in_ok-climbs.climbs) (c.in_ok-ups.ensures ∙ ap (λ (ps : List ℕ). map (climbing_rung ps) c.args.climbing.now) c.as_slice-2.ensures) c.in_ok-climbs.ensures.same)
    (subst (λ (gs : List Rung). AreRowsOf gs c.in_ok-falls.falls) (c.in_ok-downs.ensures ∙ ap (λ (ps : List ℕ). map (falling_rung ps) c.args.falling.now) c.as_slice-3.ensures) c.in_ok-falls.ensures.same)

pub returns-clause-many : goal.returns-clause-many
returns-clause-many c = (
  length-arcs_by (climbing_arc c.in_ok-nodes.nodes) 0 c.in_ok-climbs.climbs ∙ c.in_ok-climbs.ensures.count ∙ ap length (c.in_ok-ups.ensures ∙ ap (λ (ps : List ℕ). map (climbing_rung ps) c.args.climbing.now) c.as_slice-2.ensures) ∙ length-map c.args.climbing.now (climbing_rung c.in_ok-places.places),
  length-arcs_by (falling_arc c.in_ok-nodes.nodes) 0 c.in_ok-falls.falls ∙ c.in_ok-falls.ensures.count ∙ ap length (c.in_ok-downs.ensures ∙ ap (λ (ps : List ℕ). map (falling_rung ps) c.args.falling.now) c.as_slice-3.ensures) ∙ length-map c.args.falling.now (falling_rung c.in_ok-places.places),
)
