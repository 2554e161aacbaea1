use Rattle.std.proofs.Common.{arith, ap, ◌∙◌, subst, List, None}
use Rattle.plain_search.specs.declared.reached.Reached.{Reached}
use Rattle.plain_search.specs.declared.reached.Way.{Way}
use Rattle.plain_search.specs.Marking.{ArePlaces}
use Rattle.plain_search.specs.Reaching.{Listing, in_way}
use Rattle.plain_search.proofs.WalkBack.{IsTracing, trace_more, few_traced, walk_made, walk_reads, few_reads}
use Rattle.plain_search.proofs.tree.Reach.walk_back.Goals as goal

pub loop-at-smaller : goal.loop-at-smaller
loop-at-smaller g c =
    let listed = ap (λ (l : Listing). l.listed) c.self.view_is in
    let places = subst (λ (rs : List Reached). ArePlaces rs c.self.inside.marks) listed c.self.invariant.0 in
    (trace_more c.args.graph.now c.args.self.now c.self.inside.marks c.requires places c.args.node c.loop-at.nodes.items c.push.new.self.items c.loop-at.at c.in-Some.place c.in-Some.is c.loop-at.invariant
    c.as_slice.result.now (record { node = record { 0 = 0 }; distance = 0; parent = None }) (c.as_slice.ensures ∙ listed) c.in_ok-push.ensures.items c.parent_place-at.result c.parent_place-at.ensures).1

pub loop-at-preserved : goal.loop-at-preserved
loop-at-preserved g c =
    let listed = ap (λ (l : Listing). l.listed) c.self.view_is in
    let places = subst (λ (rs : List Reached). ArePlaces rs c.self.inside.marks) listed c.self.invariant.0 in
    (trace_more c.args.graph.now c.args.self.now c.self.inside.marks c.requires places c.args.node c.loop-at.nodes.items c.push.new.self.items c.loop-at.at c.in-Some.place c.in-Some.is c.loop-at.invariant
    c.as_slice.result.now (record { node = record { 0 = 0 }; distance = 0; parent = None }) (c.as_slice.ensures ∙ listed) c.in_ok-push.ensures.items c.parent_place-at.result c.parent_place-at.ensures).0

pub made-requires : goal.made-requires
made-requires g c =
    let way = ap (λ (l : Listing). l.way) c.self.view_is in
    let passed = c.as_slice-2.ensures.value ∙ c.turned-nodes.ensures ∙ ap (λ (w : Way). in_way w c.loop-at.nodes.items) way in
    let few = few_traced c.args.graph.now c.args.self.now c.requires c.args.node c.loop-at.nodes.items (subst (IsTracing c.args.graph.now c.args.self.now c.args.node c.loop-at.nodes.items) c.in_default.is c.loop-at.invariant) in
    rw passed few

pub returns-clause-walk : goal.returns-clause-walk
returns-clause-walk g c =
    let way = ap (λ (l : Listing). l.way) c.self.view_is in
    let passed = c.as_slice-2.ensures.value ∙ c.turned-nodes.ensures ∙ ap (λ (w : Way). in_way w c.loop-at.nodes.items) way in
    walk_made c.args.graph.now c.args.self.now c.requires c.args.node c.loop-at.nodes.items c.as_slice-2.result.now
    (subst (IsTracing c.args.graph.now c.args.self.now c.args.node c.loop-at.nodes.items) c.in_default.is c.loop-at.invariant) passed c.made.result c.made.ensures.walk

pub returns-clause-steps : goal.returns-clause-steps
returns-clause-steps g c =
    let way = ap (λ (l : Listing). l.way) c.self.view_is in
    let passed = c.as_slice-2.ensures.value ∙ c.turned-nodes.ensures ∙ ap (λ (w : Way). in_way w c.loop-at.nodes.items) way in
    walk_reads c.args.graph.now c.args.self.now c.requires c.args.node c.loop-at.nodes.items c.as_slice-2.result.now (subst (IsTracing c.args.graph.now c.args.self.now c.args.node c.loop-at.nodes.items) c.in_default.is c.loop-at.invariant) passed c.made.result c.args.steps.now c.made.new.steps c.made.ensures.walk c.made.ensures.steps

pub returns-clause-most : goal.returns-clause-most
returns-clause-most g c =
    let way = ap (λ (l : Listing). l.way) c.self.view_is in
    let passed = c.as_slice-2.ensures.value ∙ c.turned-nodes.ensures ∙ ap (λ (w : Way). in_way w c.loop-at.nodes.items) way in
    let few = few_reads c.args.graph.now c.args.self.now c.requires c.args.node c.loop-at.nodes.items c.as_slice-2.result.now (subst (IsTracing c.args.graph.now c.args.self.now c.args.node c.loop-at.nodes.items) c.in_default.is c.loop-at.invariant) passed in
    let most = c.made.ensures.most in
    omega arith
