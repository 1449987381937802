pub mod Buffer
pub mod ElemLending
pub mod Lending
pub mod Links
pub mod Listed
pub mod Ownership
pub mod Walking
