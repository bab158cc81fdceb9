pub mod StopPlaces
pub mod RampStops
pub mod FunctionStops
