-- the lemmas of the crate
pub mod Laying
pub mod Units
