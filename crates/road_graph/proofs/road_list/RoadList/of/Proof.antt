use Rattle.road_graph.proofs.Ghosts.{List, [], ◌∷◌, refl, proved, ftrue, flft, named, Val, tables, ‵, ◌⊛◌, ◌$◌, ◌∵◌, !, qed, done, move, keep, split, suffices, frame, enter, returns, alloc_all, pass_all, free_all, look_at, sets, no_more, yes, plain, Stays, walk_of, says, ends_at}
use types.Part.{agg}
use mir.Val.{vstruct, vnil}
use types.Kit.{use0}
use base.Logic.{ent, emp}
use types.Logic.{Logic, sem}
use seplogic.Ra.Ura.{Ura}
use denote.RattleType.{owns}
use denote.Shadow.{makes_shadow}
use denote.Slice.{ShrSlice, slice_val, shr_slice_vals, shr_slice_Tells}
use denote.Triple.Walked.{stay_none_slice, Goes-none_slice}
use Rattle.std.proofs.Common.{length}
use Rattle.road_graph.specs.declared.road.Road.{Road}
use Rattle.road_graph.specs.contracts.road_list.RoadList.of as f
use Rattle.road_graph.proofs.road_list.RoadList.of.Statement.{statement}
use Rattle.road_graph.proofs.road_list.RoadList.of.Code as code
use Rattle.road_graph.specs.contracts.road_list.RoadList.{the_row as R}
use Rattle.road_graph.specs.contracts.road.Road.{the_row as E}

abbrev token : Val
token = vstruct vnil

abbrev stayed : Stays f.ended.signature.params f.ended.kept
stayed = (stay_none_slice (0 ∷ []) tt (plain (λ _. E)) yes, tt)

made : {M : Type 1} {𝓤 : Ura M} (𝓛 : Logic 𝓤) (roads : List Road) → ent 𝓤 (emp 𝓤) (sem 𝓛 (R.own_val (record { roads = roads }) (token ∷ [])))
made 𝓛 roads = makes_shadow 𝓛 (R.own_val (record { roads = roads }) (token ∷ [])) (λ _. (tt, tt), tt) ((tt, (refl, tt)), tt)

pub of_spec : {M : Type 1} → statement M
of_spec 𝓤 𝓛 𝓜 𝓡 wired =
    let c = f.clauses 𝓛 𝓜.mem 𝓡.returns in let W = walk_of 𝓛 f.ended stayed c in let 𝓣 = tables 𝓤 𝓛.H 𝓜 𝓡 𝓡.env in
    proved 𝓛 f.ended stayed c 𝓜 𝓡 (Goes-none_slice 𝓛 1 (0 ∷ []) tt (plain (λ _. E)) yes, tt)
    f.Key.name code.function (code.unfolded 𝓤 𝓛.H 𝓜 𝓡 wired)
    (λ κs. (shr_slice_vals, tt)) (λ κs. (shr_slice_Tells (named 0) κs.0 E, tt)) (λ κs qs bounds a g are.
    let roads = a.0.now in let at = slice_val a.0.ref_ptr (length roads) in
    let y : W.Ghost = ((κs, qs, bounds, a, (at ∷ [], tt)), tt) in
    qed 𝓛 (((‵ (flft κs.0 qs.0) ⊛ ‵ ftrue) ⊛ ‵ (owns (ShrSlice (named 0) κs.0 E ∷ []) a (at ∷ [], tt))) ∷ ‵ ftrue ∷ []) ∵
    split ! $ keep ! (0 ∷ 1 ∷ []) $
    enter ! _ _ _ _ _ $ alloc_all ! (λ l. pass_all ! refl ((tt, (tt, (record { fits = are.0.0.1.0 }, tt))), tt) $
    sets ! (agg ! (no_more !)) refl (tt, tt) $
    returns ! (look_at ! 0 refl) $ free_all ! refl $
    suffices ! _ (ends_at 𝓛 f.ended stayed c y token (record { roads = roads }) (tt, tt) (tt, tt)) $ says ! refl $
    use0 𝓛 (‵ (R.own_val (record { roads = roads }) (token ∷ []))) (made 𝓛 roads) $ move ! (1 ∷ 2 ∷ []) $ frame ! $ frame ! $ done !))
