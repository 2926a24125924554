pub mod NameKinds
pub mod NameTables
