-- Laws. The statements are to be believed; their proofs are in proofs/.
pub mod StyleLaw
pub mod NoteLaw
pub mod MentionLaw
