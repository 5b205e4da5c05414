pub mod Room
pub mod Laws
pub mod Program
pub mod After
