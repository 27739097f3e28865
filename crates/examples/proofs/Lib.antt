pub mod WholeStart
