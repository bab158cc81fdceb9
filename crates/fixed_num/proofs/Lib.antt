pub mod FractionDigits
pub mod Decimals
pub mod Scales
pub mod Signs
pub mod Grammar
pub mod JsonNumbers
pub mod RoundTrip
