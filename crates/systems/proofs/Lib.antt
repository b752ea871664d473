mod EntryLemmas
mod Renaming
