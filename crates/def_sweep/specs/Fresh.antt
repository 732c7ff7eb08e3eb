-- Fresh names and reserved ones: those of the text's names.
pub use Rattle.def_names.specs.Fresh.{has_name, digits, candidate, first_free, fresh}
pub use Rattle.def_names.specs.Reserved.{reserved}
