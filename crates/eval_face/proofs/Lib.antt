pub mod FittedLaws
pub mod AgreementLaws
pub mod ShownLaws
pub mod JoinedLaws
