mod PathLemmas
mod NodeLemmas
mod NameLemmas
mod ParentLemmas
