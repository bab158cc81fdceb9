-- Laws. The statements are to be believed; their proofs are in proofs/.
pub mod NoFindingsLaw
