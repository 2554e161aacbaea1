-- A `&` to it is a part of it, and it owns nothing.
use denote.Param.Send.{IsSync, part_keyless}
use Rattle.road_graph.specs.contracts.road_list.RoadList.{the_row}
use Rattle.road_graph.proofs.road_list.RoadList.TheSendSync.Send.{send}

pub sync : IsSync the_row
sync = record { shared = λ told b o κ q. part_keyless the_row send q told b o }
