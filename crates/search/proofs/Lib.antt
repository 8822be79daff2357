-- What belongs to no one function.
pub mod PositionLaws
pub mod FrontLaws
pub mod LeastLaws
pub mod SoonerLaws
pub mod LaterLaws
pub mod DemandLaws
pub mod ShareLaws
pub mod ClassLaws
pub mod RoundLaws
pub mod HastenLaws
pub mod LeapLaws
pub mod CountLaws
