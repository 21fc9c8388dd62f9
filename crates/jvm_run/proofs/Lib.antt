mod RunLemmas
mod ShapeLemmas
mod RowLemmas
mod ArgumentLemmas
