-- Laws. The statements are to be believed; their proofs are in proofs/.
pub mod MeaningLaw
pub mod DocumentLaw
pub mod NeverLaw
pub mod TwiceLaw
