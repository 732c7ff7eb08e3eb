-- the definitions of the crate, a module a subject
pub mod Phrase
pub mod Phrases
pub mod Flaws
pub mod Said
pub mod FormFits
pub mod Fronts
pub mod Called
pub mod View
pub mod LexemesView
