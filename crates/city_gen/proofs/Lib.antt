mod After
mod LinesFrom
mod RoadsAlong
mod VehiclesFrom
