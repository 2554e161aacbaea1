use Rattle.road_graph.proofs.WalkLaws.{shorten, simple_few, simple_short, dist_short, one_distance, has_distance, dist_simple, triangle, parts_are_least, places_are_least}
use Rattle.road_graph.proofs.laws.laws_of_walks.Goals as goal

pub returns-clause-shorten : goal.returns-clause-shorten
returns-clause-shorten c = λ g lawful. shorten g

pub returns-clause-simple_few : goal.returns-clause-simple_few
returns-clause-simple_few c = simple_few

pub returns-clause-simple_short : goal.returns-clause-simple_short
returns-clause-simple_short c = simple_short

pub returns-clause-short : goal.returns-clause-short
returns-clause-short c = dist_short

pub returns-clause-one : goal.returns-clause-one
returns-clause-one c = λ g lawful. one_distance g

pub returns-clause-distances : goal.returns-clause-distances
returns-clause-distances c = has_distance

pub returns-clause-simple : goal.returns-clause-simple
returns-clause-simple c = λ g lawful. dist_simple g

pub returns-clause-triangle : goal.returns-clause-triangle
returns-clause-triangle c = triangle

pub returns-clause-parts : goal.returns-clause-parts
returns-clause-parts c = parts_are_least

pub returns-clause-places : goal.returns-clause-places
returns-clause-places c = places_are_least
