pub mod AuditTexts
pub mod Lasts
pub mod Makes
pub mod Texts
pub mod Writers
