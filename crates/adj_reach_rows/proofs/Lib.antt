-- the lemmas of the crate
mod Words
mod Growing
mod Marking
mod Columns
mod Listing
mod Following
mod Taking
mod Chaining
mod Searching
mod Turned
