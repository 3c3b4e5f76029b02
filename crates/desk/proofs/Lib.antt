pub mod Due
pub mod Numbers
