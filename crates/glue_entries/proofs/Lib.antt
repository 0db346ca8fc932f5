pub mod GlueLabels
