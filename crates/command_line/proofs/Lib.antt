mod OptionLemmas
mod ProgramLemmas
mod FaultLemmas
mod ParseLemmas
