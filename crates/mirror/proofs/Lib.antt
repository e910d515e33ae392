pub mod RoundTrip
pub mod Zero
