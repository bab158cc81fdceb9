pub mod Levels
mod SomeMembers
