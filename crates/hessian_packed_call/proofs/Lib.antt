pub mod Agreement
pub mod Tests
