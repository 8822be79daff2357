pub mod MultiplesLaws
pub mod BoundLaws
pub mod HyperperiodLaws
pub mod ChargeLaws
pub mod VerdictLaws
pub mod Figures
