pub mod WeakeningLaws
