-- What words of a case make.
pub mod Cases
