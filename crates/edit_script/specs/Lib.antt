-- To be believed.
pub mod Edit
pub mod View
pub mod Form
pub mod Command
pub mod Line
-- Laws of these.
pub mod Laws
