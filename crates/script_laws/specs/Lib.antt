-- Laws. The statements are to be believed; their proofs are in proofs/.
pub mod ScriptLaw
pub mod EvalLaw
