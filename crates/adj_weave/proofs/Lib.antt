-- Which units are emitted, what is known of each, and what is put together.
pub mod Ordered
pub mod Calling
pub mod Reached
pub mod Searched
pub mod Known
pub mod Facts
pub mod Taking
pub mod Flagged
pub mod UnitMarks
pub mod Alike
pub mod Units
pub mod Program
pub mod Headed
pub mod Leaving
pub mod Makings
