mod RunLemmas
mod ServerLemmas
mod Outliving
