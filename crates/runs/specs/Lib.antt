-- In the order in which to read: the model, the machine that makes its runs, what the equation counts, the theorem, and what functions promise.
pub mod Sums
pub mod model
pub mod machine
pub mod Equation
pub mod Theorem
pub mod Promises
