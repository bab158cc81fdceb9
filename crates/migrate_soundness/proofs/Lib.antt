pub mod MemberLists
pub mod ReportedAlike
pub mod SoundParts
pub mod ChangedDocuments
pub mod SoundDocuments
