pub mod NameKinds
