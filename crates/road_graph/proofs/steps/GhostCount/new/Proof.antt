use Rattle.road_graph.proofs.Ghosts.{◌≡◌, raw, on_entry, [], ◌∷◌, refl, proved, Val, tables, ‵, ◌$◌, ◌∵◌, !, qed, done, keep, suffices, enter, returns, alloc_all, pass_all, free_all, look_at, sets, no_more, nothing, walk_of, says, ends_at}
use types.Part.{agg}
use mir.Val.{vstruct, vnil}
use types.Kit.{use0}
use base.Logic.{ent, emp, sep}
use contract.Monad.{fact}
use denote.Triple.Walked.{on_exit}
use types.Logic.{Logic, sem}
use seplogic.Ra.Ura.{Ura}
use denote.Shadow.{makes_shadow}
use Rattle.road_graph.specs.contracts.steps.GhostCount.new as f
use Rattle.road_graph.proofs.steps.GhostCount.new.Statement.{statement}
use Rattle.road_graph.proofs.steps.GhostCount.new.Code as code
use Rattle.road_graph.specs.contracts.steps.GhostCount.{the_row as R}

abbrev token : Val
token = vstruct vnil

made : {M : Type 1} {𝓤 : Ura M} (𝓛 : Logic 𝓤) → ent 𝓤 (emp 𝓤) (sem 𝓛 (R.own_val (record { total = 0 }) (token ∷ [])))
made 𝓛 = makes_shadow 𝓛 (R.own_val (record { total = 0 }) (token ∷ [])) (λ _. (tt, tt), tt) ((tt, (refl, tt)), tt)

pub new_spec : {M : Type 1} → statement M
new_spec 𝓤 𝓛 𝓜 𝓡 wired =
    let c = f.clauses 𝓛 𝓜.mem 𝓡.returns in let W = walk_of 𝓛 f.ended tt c in let 𝓣 = tables 𝓤 𝓛.H 𝓜 𝓡 𝓡.env in
    proved 𝓛 f.ended tt c 𝓜 𝓡 tt
    f.Key.name code.function (code.unfolded 𝓤 𝓛.H 𝓜 𝓡 wired)
    (λ κs. tt) (λ κs. tt) (λ κs qs bounds a g are.
    let y : W.Ghost = ((tt, tt, tt, tt, tt), tt) in
    qed 𝓛 (raw (on_entry 𝓛 f.signature κs qs a tt) ∷ raw (emp 𝓤) ∷ []) ∵ keep ! [] $
    enter ! _ _ _ _ _ $ alloc_all ! (λ l. pass_all ! refl tt $
    sets ! (agg ! (no_more !)) refl (tt, tt) $
    returns ! (look_at ! 0 refl) $ free_all ! refl $
    suffices ! (sep 𝓤 (on_exit 𝓛 f.ended tt tt tt tt token (record { total = 0 }) tt tt) (fact 𝓤 (0 ≡ 0))) (ends_at 𝓛 f.ended tt c y token (record { total = 0 }) tt tt) $ says ! refl $
    use0 𝓛 (‵ (R.own_val (record { total = 0 }) (token ∷ []))) (made 𝓛) $
    nothing ! $ nothing ! $ done !))
