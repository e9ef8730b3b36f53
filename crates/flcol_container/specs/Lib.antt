pub mod Container
pub mod ContainerReading
pub mod Outcomes
pub mod Heads
pub mod Room
