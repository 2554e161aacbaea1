use Rattle.commit_cases.proofs.settles.check_ways.Goals as goal

pub check_settled-requires-2-clause-sound : goal.check_settled-requires-2-clause-sound
check_settled-requires-2-clause-sound g c = c.in_ok-play.ensures.sound _ _ c.in_ok-candidates.ensures

pub check_settled-requires-3-clause-sound : goal.check_settled-requires-3-clause-sound
check_settled-requires-3-clause-sound g c = c.in_ok-play-2.ensures.sound _ _ (c.in_ok-play.ensures.sound _ _ c.in_ok-candidates.ensures)
