-- The bytes of a line, one after the other.
pub use Rattle.script.proofs.Bytes.{keeps_all, keeps_on, gives_byte, gives_none}
