pub mod ToldLaws
mod JsonLaws
