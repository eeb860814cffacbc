pub mod Checking
pub mod Results
pub mod ValueRefs
pub mod Naming
pub mod Stacks
