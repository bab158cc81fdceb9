-- What only contracts of private functions use.
pub mod NumberScopes
pub mod ResolvedParts
pub mod NameRoles
