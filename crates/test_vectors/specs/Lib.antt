pub mod TestInputs
