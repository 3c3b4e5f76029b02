pub mod ShareLaws
pub mod RowLaws
pub mod PassLaws
pub mod TreeLaws
pub mod SightLaws
pub mod ProgramLaws
